pub mod Backlogs
pub mod Marks
pub mod Newest
pub mod Scans
pub mod Standing
