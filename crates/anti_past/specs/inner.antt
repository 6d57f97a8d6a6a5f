pub mod Came
pub mod Cursors
pub mod Found
pub mod Keys
pub mod Looking
pub mod Marks
pub mod Reading
pub mod Walking
