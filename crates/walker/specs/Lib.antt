-- What the walker's functions above the cursor promise (Shown).
pub mod Shown
