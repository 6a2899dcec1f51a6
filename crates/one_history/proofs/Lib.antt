pub mod Sums
pub mod Starts
pub mod Claims
pub mod Moves
pub mod SeatRules
pub mod Seats
pub mod Meets
pub mod Ends
