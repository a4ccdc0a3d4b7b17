-- Why the verdict is that of the record.
pub mod Whole
