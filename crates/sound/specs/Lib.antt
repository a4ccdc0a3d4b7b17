-- When a record could have come from its own blank form: the seven conditions, the verdict, runs.
pub mod Sound
pub mod Run
