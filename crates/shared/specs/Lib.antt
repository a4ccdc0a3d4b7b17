-- What a test tells (Tells), refusals and answers (Refusal).
pub mod Tells
pub mod Refusal
