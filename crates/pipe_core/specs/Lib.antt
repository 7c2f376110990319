pub mod Pipes
pub mod Chains
pub mod Labelled
