-- A set of keys as bits.
pub mod Set
