pub mod Answering
pub mod Chains
pub mod Ordered
pub mod Rounds
