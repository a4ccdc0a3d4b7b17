-- What the pass notes.
pub mod Gather
