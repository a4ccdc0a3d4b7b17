-- Plans of forward step and undo.
pub mod Plan
