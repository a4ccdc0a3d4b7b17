-- Why one pass gathers the labels of all undos.
pub mod Undone
pub mod Gathering
pub mod Search
pub mod Listed
