pub mod Cuts
pub mod Lines
pub mod Steps
pub mod Truth
