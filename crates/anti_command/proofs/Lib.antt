mod ByWorkers
mod Settled
mod Worth
