pub mod Cuts
mod Listing
mod Placing
mod Readings
mod Missed
pub mod Pasts
pub mod Chains
mod Last
mod Explained
mod Serial
pub mod Worked
