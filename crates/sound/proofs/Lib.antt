-- The theorems on soundness, each file leaning only on those above it.
pub mod Chains
pub mod Peel
pub mod Conditions
pub mod Order
pub mod Kept
pub mod Derive
pub mod Top
pub mod Reach
pub mod Taken
pub mod Literal
pub mod Decide
pub mod Examples
