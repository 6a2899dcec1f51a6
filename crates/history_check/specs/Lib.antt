pub mod Following
pub mod Judged
pub mod Read
pub mod Reading
pub mod Reported
pub mod Text
pub mod Written
