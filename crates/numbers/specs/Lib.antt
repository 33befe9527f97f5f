pub mod Groups
pub mod Reading
pub mod Writing
pub mod Laws
