pub mod Below
pub mod Members
pub mod Ordered
pub mod Running
pub mod Served
pub mod Walk
