pub mod TreeLemmas
pub mod Holds
pub mod AllParse
pub mod StatedLines
pub mod ParsedBodies
pub mod FittingLines
pub mod PartOrder
