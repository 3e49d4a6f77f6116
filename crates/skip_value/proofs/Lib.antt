pub mod Deep
pub mod Settled
pub mod Sizes
pub mod Steps
