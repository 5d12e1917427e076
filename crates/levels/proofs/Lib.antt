pub mod Acyclic
pub mod Along
pub mod Back
pub mod Longest
pub mod Members
pub mod Ordering
pub mod Pigeons
pub mod Rounds
