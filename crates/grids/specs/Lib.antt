pub mod Xorshift
pub mod Worths
pub mod Drawn
