pub mod Outputs
pub mod ReadsBack
