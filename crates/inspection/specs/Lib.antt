pub mod Listing
pub mod Inspected
