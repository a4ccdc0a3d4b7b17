-- The undo listing: laws on plain lists and numbers that the functions' proofs cite.
pub mod Listings
pub mod Whole
