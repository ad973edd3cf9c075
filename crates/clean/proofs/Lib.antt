pub mod Parts
pub mod Segment
pub mod Syndromes
