-- Small numbers for keys.
pub mod Slot
