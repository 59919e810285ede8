mod Shifts
mod Changes
pub mod Swaps
pub mod Collected
