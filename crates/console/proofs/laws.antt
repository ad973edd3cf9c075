pub mod LabelLine
