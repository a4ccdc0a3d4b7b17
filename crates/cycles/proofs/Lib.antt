-- Why the cycle test is right: laws on plain lists and numbers.
pub mod Pairs
pub mod Queues
pub mod Steps
pub mod Columns
pub mod Rounds
pub mod Turn
pub mod Whole
