pub mod Processor
pub mod Requests
pub mod Timeline
pub mod Laws
