-- Why the keys go in turn, and what is left is the record without them.
pub mod Rest
pub mod Turns
pub mod Undone
pub mod Linked
