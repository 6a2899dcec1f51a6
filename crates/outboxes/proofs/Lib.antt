pub mod Sizes
pub mod Written
pub mod Giving
