pub mod Order
pub mod Serial
pub mod Chains
pub mod Causes
