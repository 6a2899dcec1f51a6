pub mod Cursors
pub mod Entries
pub mod Logs
pub mod OwnLines
pub mod Parts
pub mod Tables
pub mod Tallies
