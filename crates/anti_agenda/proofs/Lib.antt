mod Brought
mod Changes
mod Finding
mod Fronts
mod KeySets
mod Marked
mod Orders
