pub mod Adding
pub mod Assembling
pub mod Held
pub mod Rules
pub mod Saying
pub mod Tables
