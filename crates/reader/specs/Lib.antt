-- What the reader answers: kinds, the head of a node, the term at a place, the stack of what is due.
pub mod Kind
pub mod Head
pub mod Walk
pub mod Due
