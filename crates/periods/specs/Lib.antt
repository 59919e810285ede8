pub mod Divisors
pub mod Multiples
pub mod Listed
pub mod Rows
pub mod Lists
