pub mod Traces
pub mod Histories
pub mod Legal
pub mod Ends
pub mod inner
