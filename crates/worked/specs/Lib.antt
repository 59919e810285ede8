pub mod Plan
pub mod Tables
