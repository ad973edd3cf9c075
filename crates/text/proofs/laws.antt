pub mod Lines
pub mod HexDigit
pub mod Hex
pub mod Decimal
pub mod Put
