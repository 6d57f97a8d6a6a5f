pub mod Losses
pub mod Pasts
pub mod Spans
pub mod Told
pub mod inner
