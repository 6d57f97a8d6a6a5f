pub mod Earlier
pub mod Flows
pub mod Joining
pub mod Ways
pub mod Doubting
mod Telling
mod Waiting
mod Stepping
mod Adding
mod Beginning
mod Members
mod Skipping
mod Spared
mod Unnamed
mod Sayings
mod Freed
mod Shortness
mod Worked
