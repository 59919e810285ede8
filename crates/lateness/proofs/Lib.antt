pub mod Checked
pub mod Gathered
pub mod Hosted
pub mod Judged
pub mod Ranked
pub mod Ruled
pub mod Stops
pub mod Walked
