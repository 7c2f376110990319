pub mod LineOf
pub mod Settings
