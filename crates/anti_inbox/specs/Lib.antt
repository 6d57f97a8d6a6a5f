pub mod InboxLaws
pub mod inner
