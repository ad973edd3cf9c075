pub mod Offsets
pub mod Words
