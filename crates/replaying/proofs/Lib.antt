pub mod Values
pub mod LinesLeft
pub mod Words
pub mod PlainForms
