pub mod Bounds
pub mod Pending
pub mod Trails
