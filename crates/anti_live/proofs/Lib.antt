mod Places
mod PassCalls
mod HereLemmas
mod Staying
mod Firsts
mod Pushed
mod Rooms
mod Sharing
pub mod Crossing
mod Belonging
mod Changed
mod Closings
mod Joins
mod Replicas
mod Splits
