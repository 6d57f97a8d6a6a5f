pub mod Front
pub mod Marking
pub mod Waking
