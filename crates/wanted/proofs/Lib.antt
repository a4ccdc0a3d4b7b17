-- Why the pass marks the wanted places, node by node.
pub mod Adding
pub mod Noting
pub mod Marking
