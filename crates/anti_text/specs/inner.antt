pub mod Cut
pub mod Overwritten
pub mod Quoting
pub mod Runs
