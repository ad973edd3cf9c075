pub mod CallAnswers
pub mod Demand3Counts
