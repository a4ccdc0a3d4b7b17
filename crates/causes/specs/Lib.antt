-- What the soundness test looks at: the prefixes that hold a key, in preorder, and a test on them for each of the seven conditions.
pub mod Entry
pub mod Tests
pub mod Links
pub mod Columns
pub mod Nearest
