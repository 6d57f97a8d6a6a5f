pub mod Cursors
pub mod Changes
