pub mod Cases
pub mod Figures
pub mod Loads
pub mod Places
pub mod Rows
pub mod Seeking
pub mod Tables
pub mod Timed
