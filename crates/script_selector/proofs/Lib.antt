pub mod Equal
pub mod Giving
