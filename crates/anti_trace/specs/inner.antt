pub mod Living
pub mod After
pub mod Heads
pub mod Shown
pub mod Trails
