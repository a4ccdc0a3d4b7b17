-- Laws of following links: one link, the links from a key, and the keys one after the other.
pub mod Meeting
pub mod Walking
pub mod Rounds
