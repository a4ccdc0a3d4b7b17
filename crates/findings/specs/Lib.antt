-- What is found of a part, against the definitions of the pass.
pub mod Seen
