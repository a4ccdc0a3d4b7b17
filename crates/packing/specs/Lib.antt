-- How the answers of the entries for a host are packed into one number (Packed) and taken apart (Fields), and what each function packs (Packs).
pub mod Packed
pub mod Fields
pub mod Packs
