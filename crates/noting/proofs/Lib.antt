-- Laws on plain lists and numbers: rows in lent arrays, and what one node notes.
pub mod Rows
pub mod Nodes
