pub mod PutBits
pub mod Editions
