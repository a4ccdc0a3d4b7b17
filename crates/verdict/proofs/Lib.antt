-- Why the tests on columns give the verdict of the term that is laid out in them.
pub mod Order
pub mod Calls
pub mod Verdicts
