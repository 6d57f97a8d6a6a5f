pub mod Schedule
pub mod Complete
pub mod Over
pub mod Pulls
pub mod inner
