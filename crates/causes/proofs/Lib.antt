-- The tests on entries are the conditions, each file leaning only on those above it.
pub mod Entries
pub mod Folds
pub mod Pairs
pub mod Sides
pub mod Scopes
pub mod Nearest
pub mod Chains
pub mod Verdict
pub mod Taking
pub mod Renaming
pub mod Examples
