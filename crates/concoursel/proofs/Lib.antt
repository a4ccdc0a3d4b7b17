-- What the walk answers, and that only one packed answer fits each entry.
pub mod Nodes
pub mod Once
