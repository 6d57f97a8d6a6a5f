pub mod Report
pub mod RunCounts
pub mod Tallies
