-- Laws of the waiting list: from the set of keys that were reached to the answer.
pub mod Answers
