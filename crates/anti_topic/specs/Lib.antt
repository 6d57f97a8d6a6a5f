pub mod TopicStates
pub mod TopicLaws
pub mod inner
