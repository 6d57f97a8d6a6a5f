pub mod Adding
pub mod Cursors
pub mod Going
pub mod Quiet
pub mod Running
pub mod Standing
pub mod Statements
pub mod Variables
