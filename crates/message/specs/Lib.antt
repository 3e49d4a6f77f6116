pub mod Layouts
pub mod Messages
