-- What the pass that lays a record out in columns asks for and leaves behind.
pub mod Sheet
pub mod Lay
