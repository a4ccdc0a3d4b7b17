-- The links between the keys of a record, and how they are filed.
pub mod Cabinet
pub mod Record
