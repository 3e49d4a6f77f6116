-- UpTo has the theorem: `up_to` is as `ValidUpTo` says, and no other place is.
pub mod Rows
pub mod Chars
pub mod UpTo
pub mod Examples
