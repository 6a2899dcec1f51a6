pub mod Clocks
pub mod Logged
pub mod Outcomes
pub mod Queued
pub mod Texts
pub mod Waiting
