pub mod Failing
pub mod Writes
