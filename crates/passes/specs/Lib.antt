-- What a pass makes of each node (Part), and what it answers (Pass).
pub mod Part
pub mod Pass
