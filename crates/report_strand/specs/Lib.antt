pub mod ReportOutput
