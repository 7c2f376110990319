pub mod Machine
pub mod Trail
pub mod Tally
