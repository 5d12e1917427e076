pub mod Freezing
pub mod Reading
