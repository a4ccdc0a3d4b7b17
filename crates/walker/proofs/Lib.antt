-- Why the walker's functions keep their promises: what a walker owns (Held), the steps of a cursor (Steps), and what is shown of small records (Examples).
pub mod Held
pub mod Steps
mod Examples
