-- What each operation answers and leaves in every buffer, for every input (01, Operations and their refusals).
pub mod Order
pub mod Change
pub mod Ask
pub mod Runs
pub mod TakeBack
