pub mod MapLemmas
pub mod BlockLemmas
pub mod PlaceLemmas
pub mod OwnerLemmas
mod WorkedRows
