-- How the code stands for stores and clients.
pub mod Changing
pub mod Closing
pub mod Joining
pub mod Lives
pub mod Splitting
