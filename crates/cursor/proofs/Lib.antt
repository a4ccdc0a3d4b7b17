-- Why the cursor keeps its promises: the first node of what lies ahead (Front), the cursor's functions (Steps).
pub mod Front
pub mod Steps
pub mod Promise
