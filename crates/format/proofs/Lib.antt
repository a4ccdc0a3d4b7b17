-- Reading and writing records: what was written is read back (Round), what was read is what is written (Unique), the refusals (Refusals),
-- going through a record from node to node (Flat), and small records (Examples).
pub mod Round
pub mod Unique
pub mod Refusals
pub mod Flat
pub mod Examples
