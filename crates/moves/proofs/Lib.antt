-- Why the one pass decides the rules of a step, each file leaning only on those above it.
pub mod Holds
pub mod Undone
pub mod Split
pub mod Written
pub mod Stepped
pub mod Chosen
pub mod Answers
pub mod Examples
