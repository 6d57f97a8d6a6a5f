pub mod Members
pub mod Sessions
pub mod Laws
pub mod inner
