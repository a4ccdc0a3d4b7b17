-- A tree that knows the least of its numbers, and the number that waits outside.
pub mod Tree
pub mod Board
