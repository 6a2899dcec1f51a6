pub mod Asks
pub mod Known
pub mod SenderFactsView
pub mod Requested
pub mod Commands
pub mod Admissions
pub mod Present
