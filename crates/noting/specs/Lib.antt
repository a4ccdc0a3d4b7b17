-- What one node notes.
pub mod Node
