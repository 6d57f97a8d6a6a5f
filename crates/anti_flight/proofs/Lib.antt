mod Apart
mod Blocks
mod Crosses
pub mod Given
mod Heap
pub mod Items
mod Memory
mod Pairs
mod Rings
mod Rising
mod Sharing
mod Splits
