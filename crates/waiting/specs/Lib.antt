-- What the helpers of the waiting list promise each other.
pub mod Listed
