-- Laws of reading, on plain lists and numbers: the bytes of kinds (KindBytes), a node at a place (Heads), the reading of a term, a law for each way it can go (Laws), a stack
-- in an array (Stack), what is due while a record is read (Due), and the whole record (Whole).
pub mod KindBytes
pub mod Heads
pub mod Laws
pub mod Stack
pub mod Due
pub mod Whole
