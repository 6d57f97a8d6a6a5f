pub mod Fates
pub mod Inboxes
