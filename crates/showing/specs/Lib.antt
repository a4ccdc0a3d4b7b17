-- What the pass for the places that show a label lists.
pub mod Listed
