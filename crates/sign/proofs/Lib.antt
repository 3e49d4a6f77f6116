pub mod Floats
pub mod TwosComplement
