pub mod Filled
pub mod Steps
pub mod Writes
