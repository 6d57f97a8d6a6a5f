pub mod Pulling
pub mod Standing
