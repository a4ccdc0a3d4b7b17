-- Why the rows are those of the record: the lines are noted from the first node to the last and settled from the last to the first.
pub mod Noting
pub mod Settling
pub mod Answers
pub mod FormNumbers
