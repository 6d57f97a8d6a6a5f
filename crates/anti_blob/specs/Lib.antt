pub mod BlobStates
pub mod BlobLaws
