pub mod Streams
pub mod RefusedLine
pub mod LabelLine
