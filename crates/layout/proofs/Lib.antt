pub mod Encodings
pub mod Plans
pub mod Powers
pub mod Shapes
pub mod Texts
