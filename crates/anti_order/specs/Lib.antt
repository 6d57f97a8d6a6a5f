pub mod Answers
pub mod Chains
pub mod Counts
pub mod Tallies
pub mod inner
