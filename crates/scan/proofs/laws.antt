pub mod Scans
pub mod ScanRuns
