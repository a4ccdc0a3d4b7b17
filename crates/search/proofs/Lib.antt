-- Why the search finds the first step.
pub mod Places
pub mod Reached
pub mod Answers
