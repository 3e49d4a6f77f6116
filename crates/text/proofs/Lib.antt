pub mod Layouts
pub mod Texts
