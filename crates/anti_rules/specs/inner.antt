pub mod Parses
pub mod Parts
pub mod Keys
pub mod Facts
pub mod Things
