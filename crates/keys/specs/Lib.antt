-- What the helpers of the operations on keys promise each other.
pub mod Gather
pub mod Erase
