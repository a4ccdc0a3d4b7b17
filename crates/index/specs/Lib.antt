-- What the rows of a record are, and what the two loops that fill them promise.
pub mod Lines
pub mod Whole
