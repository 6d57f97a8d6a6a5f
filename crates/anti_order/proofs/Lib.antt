mod AnswersMore
pub mod Bits
mod Counted
mod Explaining
mod InPast
mod Kept
mod Listing
mod MarksKnown
mod Noting
pub mod Numbers
pub mod Places
pub mod ReadPlaces
mod Unsettled
pub mod Versions
mod Worked
