pub mod Fields
pub mod Marks
pub mod Numbers
pub mod Reading
pub mod Records
pub mod Sections
pub mod Steps
pub mod Texts
