-- What the labels of undos are, and how one pass over a record gathers them.
pub mod Labels
