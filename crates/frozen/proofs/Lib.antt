pub mod Answered
pub mod Known
