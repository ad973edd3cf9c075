pub mod LetterBits
pub mod Loops
pub mod Verdicts
pub mod Spelled
pub mod Decoded
