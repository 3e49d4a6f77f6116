pub mod Outputs
pub mod ReadsBack
pub mod Whole
