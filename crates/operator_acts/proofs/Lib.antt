pub mod Cuts
pub mod Digits
pub mod Entries
pub mod Forms
pub mod LastActs
