pub mod Missed
pub mod Diagnoses
pub mod Laws
pub mod inner
