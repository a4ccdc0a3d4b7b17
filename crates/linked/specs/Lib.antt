-- What the steps of a take back ask of each other.
pub mod Linked
