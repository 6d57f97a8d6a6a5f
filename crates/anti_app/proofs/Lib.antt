mod Lookups
mod Numbered
mod Kept
mod SoundRegions
mod SoundStores
mod Served
mod SoundBodies
mod ParsedBodies
mod SoundServices
mod SoundSubs
mod SoundChoices
mod Soundness
mod Numberable
mod Payloads
mod Marks
pub mod SoundLemmas
pub mod Blocks
pub mod Runnable
pub mod SubsOn
pub mod Crossing
