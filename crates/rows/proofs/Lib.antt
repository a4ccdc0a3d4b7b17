-- A row that is filled or too short.
pub mod Filling
