pub mod Splits
pub mod Marks
pub mod Lists
