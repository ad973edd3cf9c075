pub mod Remainders
pub mod MendedBits
pub mod Repairs
pub mod Stretches
pub mod TriedPlaces
