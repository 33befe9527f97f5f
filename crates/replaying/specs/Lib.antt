pub mod Parts
pub mod Numerals
pub mod Lines
pub mod Logs
pub mod Shown
pub mod Outcomes
pub mod ReadBack
