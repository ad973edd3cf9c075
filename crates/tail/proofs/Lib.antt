pub mod SumsAndBits
pub mod Tails
