pub mod laws
pub mod Search
pub mod Starts
