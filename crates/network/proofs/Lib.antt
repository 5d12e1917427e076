pub mod Acceptance
mod Counting
pub mod Meanings
