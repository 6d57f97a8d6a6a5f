pub mod Paths
pub mod Placements
pub mod Reviews
pub mod Without
pub mod inner
