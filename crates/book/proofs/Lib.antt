pub mod Below
pub mod Entering
pub mod Filling
pub mod Found
pub mod Planning
pub mod Responses
pub mod Rows
