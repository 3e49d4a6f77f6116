pub mod Found
pub mod Outputs
