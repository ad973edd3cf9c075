pub mod LayerSums
pub mod SideBySide
