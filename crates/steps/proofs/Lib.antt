pub mod laws
pub mod Step1
pub mod Step8
pub mod Step9
pub mod Step10
pub mod Answers
pub mod Answered
pub mod CleanSegments
