-- What the steps of the verdict ask for and answer.
pub mod Judge
