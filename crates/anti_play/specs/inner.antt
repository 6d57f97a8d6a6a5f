pub mod Attending
pub mod Standing
pub mod Closing
pub mod Kepts
pub mod Finishing
pub mod Attempts
pub mod Choosing
