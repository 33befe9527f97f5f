pub mod Lines
pub mod Auctions
pub mod Texts
