pub mod MadeAt
pub mod RunMore
pub mod FullStays
pub mod Stepped
pub mod MakeEntry
pub mod NextEntry
pub mod Chose
pub mod GoOn
pub mod GoNext
pub mod Choose
pub mod NewWorld
pub mod OneTrace
pub mod KeptWorld
pub mod HasPlayed
pub mod FirstOf
pub mod Finished
mod Seated
pub mod Arrived
pub mod Complete
pub mod Pulling
pub mod Tried
pub mod GoFirst
pub mod ShipNext
mod AgainNext
mod NextShipment
pub mod Reached
pub mod FirstAwake
pub mod Offers
pub mod Minding
pub mod Turning
pub mod Attempting
pub mod Filling
pub mod Passing
pub mod Trying
pub mod Adding
pub mod Going
pub mod Newborn
pub mod Carrying
pub mod Shipping
pub mod Refreshing
mod Worked
