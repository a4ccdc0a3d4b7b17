-- What one pass from the leaves to the root finds of a step: which prefixes were chosen, and whether they step together.
pub mod Choose
pub mod Move
