-- What a place meets, and the way to it.
pub mod Met
pub mod Way
