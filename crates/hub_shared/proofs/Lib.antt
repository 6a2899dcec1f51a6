pub mod KeptJoins
pub mod Known
pub mod Turns
pub mod JoinCounts
pub mod Closed
