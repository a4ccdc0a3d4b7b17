-- How answers are packed, where only one packed answer fits, and that a host can take each apart.
pub mod Packs
pub mod Nodes
pub mod Fields
