pub mod Linked
pub mod Ownership
pub mod Standing
