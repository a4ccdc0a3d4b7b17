-- The entries as columns of numbers, which rows hold a key, and what is wrong with the rows of a key.
pub mod Condition
pub mod Rows
pub mod Cause
pub mod Answer
