pub mod Wants
pub mod Matching
pub mod Audiences
pub mod SetView
pub mod WantView
