mod Adding
mod Indexing
mod Listing
mod Requests
pub mod Heard
pub mod Turns
pub mod Joined
pub mod Added
pub mod Chained
pub mod Deep
