-- kinds
pub mod FactLaws
-- lists
pub mod Finding
pub mod Sums
-- legal histories, and what of a store was written, shipped and shown in them
pub mod Histories
pub mod Rows
pub mod Shipped
pub mod NextShipments
pub mod Showing
pub mod Overs
-- units
pub mod Units
pub mod Handed
pub mod Balance
pub mod Deliveries
pub mod Bounds
pub mod Fullness
-- the laws of a kind
pub mod Lineages
pub mod Scans
pub mod Tables
pub mod Sources
pub mod Keeping
pub mod Caching
pub mod Found
-- cells of a channel, and who pulled them
pub mod Cells
pub mod Pulls
-- what is whole, free and handed out next behind one entry more, and what therefore goes on to wait
pub mod Whole
pub mod Freed
pub mod Waiting
pub mod Staleness
-- ports
pub mod Making
mod Worked
