pub mod Counts
pub mod Polls
pub mod Steps
pub mod Takes
pub mod Whole
