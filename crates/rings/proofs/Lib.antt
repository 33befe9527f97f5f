pub mod Turns
pub mod Moving
