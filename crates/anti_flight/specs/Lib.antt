pub mod Queued
pub mod Tickets
pub mod inner
