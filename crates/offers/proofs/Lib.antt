-- What the parts of a term offer, node by node, and that it is what the rules derive.
pub mod Places
pub mod Parts
pub mod Wanted
pub mod Forms
pub mod Steps
pub mod Examples
