pub mod QueueStarts
pub mod QueueStates
pub mod QueueLaws
pub mod inner
