pub mod Answers
pub mod Refusals
pub mod Unique
pub mod Within
pub mod Writes
