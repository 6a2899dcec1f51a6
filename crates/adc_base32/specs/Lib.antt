pub mod Bits
pub mod Codec
pub mod Digits
pub mod FourDigits
pub mod Sids
pub mod Spelled
pub mod Turns
