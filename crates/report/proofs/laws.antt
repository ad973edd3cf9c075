pub mod Named
pub mod ReportCall
