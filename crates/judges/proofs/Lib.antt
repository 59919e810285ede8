pub mod MarginRuns
pub mod Rows
pub mod WorstStartRuns
