pub mod Answers
pub mod Direct
pub mod Errors
pub mod Indexes
pub mod Tests
