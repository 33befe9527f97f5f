pub mod BooksSound
pub mod InBooks
pub mod Obeys
pub mod Steps
pub mod RunSteps
pub mod Replayed
pub mod Seeing
pub mod Glances
