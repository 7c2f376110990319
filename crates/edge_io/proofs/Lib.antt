pub mod PortLemmas
pub mod CrewLemmas
