pub mod Building
pub mod Room
