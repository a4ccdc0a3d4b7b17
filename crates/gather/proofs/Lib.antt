-- Laws on plain lists and numbers that the proof of the pass cites.
pub mod Notes
pub mod Gathers
