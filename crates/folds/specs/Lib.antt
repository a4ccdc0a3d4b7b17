-- What the pass for the conditions 1 and 2 answers.
pub mod Folded
