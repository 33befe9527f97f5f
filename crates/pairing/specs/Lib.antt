pub mod Held
pub mod Listing
pub mod Pairs
