pub mod Counted
pub mod Entry
pub mod Exactly
pub mod MoreRoom
