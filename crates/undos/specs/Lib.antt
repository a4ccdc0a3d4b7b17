-- What the undo listing's functions answer.
pub mod Rows
