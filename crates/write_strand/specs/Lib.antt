pub mod WriteOutput
