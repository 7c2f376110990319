pub mod CountLemmas
pub mod KeptLemmas
pub mod TableLemmas
pub mod CountsLemmas
pub mod MapLemmas
pub mod SharingRows
mod CallRows
