pub mod Digits
pub mod Decoding
pub mod Ranges
pub mod Readings
pub mod Rows
