mod Behind
mod Bytes
mod Groups
mod Joined
mod Kept
mod Marks
mod Readable
pub mod TextLaws
mod Worked
mod Written
