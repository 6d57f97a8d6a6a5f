pub mod Trees
pub mod Keys
pub mod StoreFacts
pub mod Statements
pub mod Rules
pub mod Walk
pub mod Order
pub mod inner
