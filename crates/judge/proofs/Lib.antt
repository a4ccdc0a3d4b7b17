-- Why the verdict of the columns is that of the record.
pub mod Sheets
pub mod Steps
