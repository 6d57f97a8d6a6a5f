pub mod Escapes
pub mod Texts
pub mod Over
pub mod Reading
pub mod Steps
pub mod Laws
pub mod inner
