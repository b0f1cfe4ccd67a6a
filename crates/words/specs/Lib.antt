pub mod Arguments
pub mod Cuts
pub mod Said
pub mod Words
