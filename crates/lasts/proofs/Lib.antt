-- The lasts of a term decide which keys can be undone.
pub mod Told
pub mod Nodes
pub mod Ready
pub mod Examples
