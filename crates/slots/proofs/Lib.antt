-- Why the small numbers of keys are faithful names for them.
pub mod Slots
pub mod Passes
