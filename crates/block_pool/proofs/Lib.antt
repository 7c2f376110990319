pub mod TimesLemmas
pub mod LeaseLemmas
pub mod BlockLemmas
pub mod CircleLemmas
pub mod RunLemmas
pub mod OthersLemmas
