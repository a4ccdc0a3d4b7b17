-- Dense numbers for the members of a set.
pub mod Rank
