pub mod Views
pub mod Rules
pub mod Steps
pub mod Seats
pub mod Tallies
