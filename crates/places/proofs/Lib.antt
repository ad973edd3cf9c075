pub mod laws
pub mod TestsAtPlaces
pub mod SignedOffsets
pub mod Bytes
