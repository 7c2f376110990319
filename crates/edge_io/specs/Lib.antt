pub mod Outside
pub mod Memory
pub mod Port
pub mod PortMemory
pub mod Crew
pub mod CrewMemory
