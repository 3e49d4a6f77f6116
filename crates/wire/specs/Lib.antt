-- Read Answer first: every promise of every crate is an equation in it.
pub mod Answer
pub mod Refusals
pub mod Writes
