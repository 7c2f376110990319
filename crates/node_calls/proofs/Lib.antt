pub mod Kept
pub mod NodeAsked
pub mod Elsewhere
pub mod Making
pub mod Removing
pub mod Unlinking
pub mod Revoking
