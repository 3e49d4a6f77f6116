pub mod Widths
pub mod Demands
pub mod Instances
