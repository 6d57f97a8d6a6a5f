pub mod Here
pub mod Subscribed
