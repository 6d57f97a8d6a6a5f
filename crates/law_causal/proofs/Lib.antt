pub mod Lists
pub mod Ids
pub mod Facts
pub mod Places
pub mod Coming
pub mod Processes
pub mod Looks
pub mod Objects
pub mod Stores
pub mod Replacing
pub mod Inboxes
pub mod Brings
pub mod Known
pub mod Causes
pub mod Written
pub mod Keyed
pub mod Legal
pub mod Barriers
pub mod WorkedForms
mod Worked
pub mod WorkedLoss
mod WorkedDryRun
pub mod WorkedNote
pub mod WorkedConcurrent
