-- Why the places that show a label are listed, node by node.
pub mod Listing
pub mod Showing
