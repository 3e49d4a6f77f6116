pub mod Pieces
pub mod ReadsBack
