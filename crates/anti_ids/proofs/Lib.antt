pub mod NameLemmas
mod NameOrder
pub mod ValueLemmas
pub mod IdLemmas
pub mod Places
pub mod PartLemmas
pub mod LeftLemmas
pub mod GoneLemmas
pub mod Decimals
pub mod StoreLemmas
mod WalkLemmas
mod RangeLemmas
