pub mod Written
pub mod Carried
