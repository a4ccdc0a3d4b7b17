-- Why the tree knows the least of its numbers.
pub mod Steps
pub mod Root
pub mod Boards
