-- Read in this order.
pub mod Part
pub mod Sizes
pub mod Coding
pub mod Tree
pub mod Answers
pub mod Room
