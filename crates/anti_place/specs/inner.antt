pub mod Joined
pub mod Posted
pub mod Said
pub mod Told
