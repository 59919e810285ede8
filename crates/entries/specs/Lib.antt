pub mod Lists
pub mod Ticks
