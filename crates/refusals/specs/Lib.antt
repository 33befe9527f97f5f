pub mod Numbering
pub mod Reasons
pub mod Faults
