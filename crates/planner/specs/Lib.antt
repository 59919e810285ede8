pub mod Filling
pub mod Orders
pub mod Plans
pub mod Positions
