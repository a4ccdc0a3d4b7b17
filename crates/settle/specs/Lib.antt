-- What settling leaves of each key.
pub mod Group
