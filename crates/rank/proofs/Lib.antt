-- Ranks: their laws, and what the code computes.
pub mod Ranks
pub mod Steps
