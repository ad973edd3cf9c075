pub mod Separators
pub mod RepairedLayers
pub mod Steps3to7
