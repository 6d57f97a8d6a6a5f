pub mod Words
pub mod Reads
pub mod Causal
pub mod Carried
pub mod Pasts
pub mod Settled
pub mod inner
