pub mod LeftOut
pub mod SharedFront
pub mod Judgement
