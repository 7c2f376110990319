pub mod BoundLemmas
pub mod SlotLemmas
pub mod BehindLemmas
mod RegularFiles
mod BootTree
mod BootLemmas
mod StepLemmas
mod WakeLemmas
pub mod TrailLemmas
