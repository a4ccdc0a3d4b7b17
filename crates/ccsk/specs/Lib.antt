-- The calculus CCSK, in reading order: numbers in lists, one of them taken out, terms, tests on labels, the rules of a step, the places of a step.
pub mod Numbers
pub mod Without
pub mod Term
pub mod Decide
pub mod Step
pub mod Place
