-- Why the shared tests answer what they say.
pub mod Labels
