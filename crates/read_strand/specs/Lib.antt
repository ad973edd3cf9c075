pub mod ReadOutput
