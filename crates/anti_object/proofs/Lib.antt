pub mod Starts
pub mod News
pub mod Histories
