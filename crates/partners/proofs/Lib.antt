-- Why a way leads to a place, and what the place meets on the way back.
pub mod Ways
pub mod Mates
