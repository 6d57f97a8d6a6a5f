pub mod Examining
pub mod Playing
pub mod Searching
