-- Read in this order.
pub mod Layouts
pub mod Binary
