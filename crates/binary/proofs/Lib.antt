pub mod Binary
pub mod Growth
pub mod Heads
pub mod Places
pub mod Reading
pub mod Steps
