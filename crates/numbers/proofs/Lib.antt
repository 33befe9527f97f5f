pub mod Exact
pub mod Groups
pub mod Reading
pub mod Writing
