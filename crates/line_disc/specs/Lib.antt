pub mod Echo
pub mod Discipline
pub mod Cook
pub mod Transfers
pub mod Device
pub mod Places
pub mod Disc
pub mod Lines
