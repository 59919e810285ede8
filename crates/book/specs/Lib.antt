pub mod Books
pub mod Calls
pub mod Finding
pub mod Plans
pub mod Punctual
pub mod Questions
