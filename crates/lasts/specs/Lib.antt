-- The prefixes that can be the last to have been done, and which keys they allow to undo.
pub mod Last
