pub mod Bringing
pub mod Carrying
pub mod Cursors
pub mod Decimals
pub mod EachCall
pub mod InARow
pub mod Keeping
pub mod Knowing
pub mod KnownCalls
pub mod Lineages
pub mod Looking
pub mod LooksAreDue
mod NoneHere
pub mod Owed
pub mod Placed
pub mod Plans
mod Quieting
pub mod Running
pub mod Runs
pub mod Served
pub mod Setting
pub mod Settling
pub mod Started
pub mod Unions
pub mod Worked
