pub mod Keeping
pub mod Marks
pub mod Seating
pub mod Reaching
