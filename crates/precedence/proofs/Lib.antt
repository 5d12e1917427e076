pub mod Directness
pub mod Levelling
