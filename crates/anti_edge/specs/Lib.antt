pub mod Outside
pub mod Streams
pub mod Plans
pub mod Memories
