pub mod Bytes
pub mod Entries
pub mod Held
pub mod Long
pub mod Soundness
