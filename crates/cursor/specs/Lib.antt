-- What the cursor promises: what lies ahead of it (Ahead), and what opening, showing and going on come to (At).
pub mod Ahead
pub mod At
