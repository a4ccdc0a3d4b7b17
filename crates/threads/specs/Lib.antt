-- Rows of links, and what threading them promises.
pub mod Rows
pub mod Threads
