pub mod Backlogs
pub mod Handles
pub mod Places
pub mod Quits
