-- Why the set functions answer what they say: bits of words, and sets label by label.
pub mod Words
pub mod Sets
