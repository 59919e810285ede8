pub mod Bytes
pub mod Checks
pub mod Example
pub mod Faults
pub mod Sheets
