pub mod Cells
pub mod Adding
pub mod Steps
pub mod Stretch
pub mod Taking
pub mod Advance
