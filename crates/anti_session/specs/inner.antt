pub mod Adding
pub mod Calls
pub mod Indexed
pub mod Listed
