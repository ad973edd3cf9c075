pub mod ReportCall
pub mod Walked
