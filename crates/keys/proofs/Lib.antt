-- Laws of the operations on keys: different numbers of a list, marked keys, a record that was read, going through a record.
pub mod Distinct
pub mod Marks
pub mod Reading
pub mod AtNode
pub mod Passing
pub mod Answers
pub mod Clearing
