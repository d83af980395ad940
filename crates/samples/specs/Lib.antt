pub mod Pieces
pub mod Rings
