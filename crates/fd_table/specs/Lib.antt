pub mod Shared
pub mod Kept
pub mod Opens
pub mod Calls
