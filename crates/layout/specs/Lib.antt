pub mod Encoding
pub mod Equality
pub mod Faults
pub mod Layout
pub mod Plan
pub mod Powers
pub mod Shape
pub mod Texts
