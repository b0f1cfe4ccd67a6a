pub mod Automaton
pub mod FaultText
pub mod Faults
pub mod Layers
pub mod Prefix
pub mod Selector
pub mod Sums
pub mod Weights
