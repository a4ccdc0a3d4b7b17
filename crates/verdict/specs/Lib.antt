-- What the columns of a term are, to the tests that look at columns only, and what these ask and answer.
pub mod Laid
pub mod Sheet
