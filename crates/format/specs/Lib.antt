-- The record, in reading order: limits, the table of kinds, reading bytes into a term, writing a term as bytes, nodes in preorder, and node after node without recursion.
pub mod Limits
pub mod Kinds
pub mod Read
pub mod Encode
pub mod Preorder
pub mod Flat
