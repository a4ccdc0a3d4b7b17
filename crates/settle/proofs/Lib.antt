-- Laws on plain lists and numbers that the functions' proofs cite.
pub mod Groups
