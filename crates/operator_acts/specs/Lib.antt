pub mod Acts
pub mod BanHistory
pub mod BansView
pub mod Bans
pub mod Gives
pub mod TextView
