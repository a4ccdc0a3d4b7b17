-- The keys that a chain of links leads to.
pub mod Reach
