pub mod Step8
pub mod Steps
