pub mod laws
pub mod Lines
pub mod Outcomes
pub mod Calls
