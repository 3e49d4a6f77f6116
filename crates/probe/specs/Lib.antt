pub mod Kept
pub mod Reads
pub mod Writes
