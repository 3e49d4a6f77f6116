pub mod BigEndian
pub mod Reads
