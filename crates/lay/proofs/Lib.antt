-- Why the columns hold the entries of the term.
pub mod Columns
pub mod Scopes
pub mod Places
pub mod Laying
pub mod Children
pub mod Whole
