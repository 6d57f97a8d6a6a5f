pub mod Carrying
pub mod Behind
pub mod Clients
