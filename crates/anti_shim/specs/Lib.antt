pub mod Plans
pub mod Steps
pub mod Shims
pub mod Sights
pub mod Looks
pub mod Barriers
pub mod DryRuns
pub mod inner
