pub mod Headers
pub mod Layouts
