pub mod SameLengths
pub mod Putting
pub mod Fields
pub mod Calls
pub mod Numbers
