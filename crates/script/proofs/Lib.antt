pub mod Equal
pub mod Numbering
pub mod Writing
