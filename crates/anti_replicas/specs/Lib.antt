pub mod Stores
pub mod Channels
pub mod inner
