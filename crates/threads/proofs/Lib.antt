-- Rows counted, and threaded one after the other.
pub mod Counting
pub mod Threading
