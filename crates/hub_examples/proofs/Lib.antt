pub mod Opened
pub mod Identifiers
pub mod Known
pub mod Lags
pub mod Played
