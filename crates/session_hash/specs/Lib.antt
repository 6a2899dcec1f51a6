pub mod First24
pub mod Words
pub mod Tables
pub mod Tiger
pub mod Padding
