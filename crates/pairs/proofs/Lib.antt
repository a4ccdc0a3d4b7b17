-- Why the test on rows is right: laws on plain lists and numbers.
pub mod Tables
pub mod Indexing
pub mod Lowest
pub mod Climbing
