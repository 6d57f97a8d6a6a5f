pub mod inner
pub mod CachedStates
pub mod CachedLaws
