pub mod Sheets
pub mod Pieces
pub mod Spaced
