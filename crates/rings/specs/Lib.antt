pub mod Items
pub mod Held
pub mod Moves
