-- The order in which keys are taken out: the definition, and what the steps of the program promise each other.
pub mod Peels
pub mod Steps
pub mod Setup
