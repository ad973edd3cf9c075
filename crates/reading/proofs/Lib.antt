pub mod Fronts
pub mod Said
pub mod Walk
pub mod Spans
