pub mod Arranging
pub mod Grounds
pub mod NumberSets
pub mod PastWrites
pub mod Pieces
pub mod Writes
