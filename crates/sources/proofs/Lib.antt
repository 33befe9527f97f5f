pub mod Refusing
pub mod PositionRows
pub mod Reading
pub mod Tables
pub mod Worths
pub mod Visiting
