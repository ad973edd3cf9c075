pub mod Report
pub mod Numbers
pub mod Truth
