mod AlongTrail
mod Asked
mod CameBefore
mod Filled
mod Finding
pub mod Fronts
mod Grown
mod Held
pub mod InSpan
pub mod KeyOrder
mod Losing
pub mod MarkPlaces
pub mod OnePlace
mod Told
mod Settledness
pub mod SpansRead
mod Worked
