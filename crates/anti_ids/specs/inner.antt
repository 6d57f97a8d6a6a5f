pub mod Texts
pub mod Bytes
pub mod Places
pub mod Parts
pub mod Left
pub mod Held
pub mod Stores
pub mod Numerals
