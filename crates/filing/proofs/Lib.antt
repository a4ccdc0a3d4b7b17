-- Laws of filing: one link more in the cabinet, the terms that are due, going through a record.
pub mod Drawers
pub mod Terms
pub mod Standing
pub mod Filling
