pub mod Rules
pub mod Images
pub mod Signals
