-- The refusals in their order.
pub mod Answers
