pub mod PlaceLemmas
pub mod LineLemmas
pub mod RawLemmas
pub mod InputLemmas
pub mod DiscLemmas
pub mod MapLemmas
pub mod TransferMapLemmas
pub mod DeviceMapLemmas
pub mod WorkedRows
mod CaseRows
mod DeviceRows
