pub mod Settling
pub mod Stated
