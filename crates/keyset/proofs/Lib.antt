-- Sets of keys: bits of a byte, sets as bytes, what the code computes, the numbers in order, in a row, and how many they are.
pub mod Bits
pub mod Sets
pub mod Steps
pub mod Members
pub mod Listing
pub mod Counts
pub mod Small
pub mod Least
