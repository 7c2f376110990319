pub mod Reading
pub mod Script
pub mod Seen
pub mod Trail
pub mod Load
