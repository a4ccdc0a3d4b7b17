-- Why each key that is taken out is the least that is free.
pub mod Releasing
pub mod Left
pub mod Peeling
pub mod Planting
pub mod Whole
