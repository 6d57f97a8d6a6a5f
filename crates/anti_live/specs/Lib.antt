pub mod Stores
pub mod Clients
pub mod Headers
pub mod inner
