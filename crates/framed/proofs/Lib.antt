pub mod Frames
pub mod ReadsBack
