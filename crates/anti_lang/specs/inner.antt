pub mod Named
pub mod Parses
pub mod Known
