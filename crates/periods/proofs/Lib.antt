pub mod Division
pub mod Euclid
pub mod Common
pub mod Starts
pub mod Ranks
pub mod Places
