pub mod ConvertOutput
