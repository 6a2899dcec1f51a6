pub mod Arrivals
pub mod Descriptors
pub mod Options
pub mod Peers
pub mod Rest
pub mod Rests
