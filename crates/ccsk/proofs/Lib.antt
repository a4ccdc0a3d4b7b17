-- The theorems of the calculus, each file leaning only on those above it.
pub mod Lists
pub mod Basic
pub mod Loop
pub mod Undo
pub mod Keys
pub mod Clear
pub mod Place
pub mod Decide
pub mod UndoDec
pub mod ForwardDec
pub mod Examples
