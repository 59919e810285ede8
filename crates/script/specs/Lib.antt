pub mod Numerals
pub mod Words
