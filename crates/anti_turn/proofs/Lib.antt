pub mod Fronts
pub mod Times
pub mod Tops
mod Totals
mod Counting
mod Fitting
mod Marks
mod Keeps
mod Shown
