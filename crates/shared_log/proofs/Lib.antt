pub mod Logs
pub mod Parts
pub mod Places
pub mod Settled
pub mod Tables
pub mod Tallies
