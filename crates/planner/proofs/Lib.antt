pub mod Exchanges
pub mod Fairness
pub mod Filling
pub mod Positions
pub mod Rows
pub mod Starts
