pub mod Causes
pub mod Diagnosed
pub mod Findings
pub mod Gathered
pub mod Indexes
pub mod Missing
pub mod Passages
