pub mod Histories
pub mod Claims
pub mod States
pub mod Settled
pub mod Seats
pub mod Rule
pub mod Plays
