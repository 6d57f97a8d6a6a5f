pub mod Headers
pub mod Turns
pub mod Shipments
