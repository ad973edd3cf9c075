pub mod LastSymbol
pub mod Ones
pub mod Masks
pub mod Columns
pub mod Folds
pub mod OneSymbol
pub mod Blocks
