mod Numbered
mod Seated
mod Regions
mod Answering
mod Waiting
pub mod Crossing
