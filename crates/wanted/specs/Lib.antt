-- What the pass over the rows notes, marks and answers.
pub mod Kept
pub mod Pass
