-- Lemmas that the ghost members of the sources cite: what each source means is sound.
pub mod Indexed
pub mod LayersSound
pub mod Starts
pub mod SheetSound
pub mod PositionsSound
