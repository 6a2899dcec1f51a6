pub mod Kinds
pub mod Unknown
pub mod Values
pub mod Lists
pub mod Settings
pub mod Answers
pub mod Reading
