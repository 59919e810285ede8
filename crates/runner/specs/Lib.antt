pub mod Levels
pub mod Processor
pub mod Adding
pub mod Running
pub mod Steps
