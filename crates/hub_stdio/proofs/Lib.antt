pub mod Failing
pub mod Refusals
pub mod Steps
pub mod Joins
pub mod Takes
pub mod Lines
pub mod Hearing
pub mod Heard
