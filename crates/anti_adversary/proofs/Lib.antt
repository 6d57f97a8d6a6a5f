pub mod Sounds
pub mod Marks
pub mod Made
pub mod Replaced
pub mod Missing
pub mod Tries
mod Worked
