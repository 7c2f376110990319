pub mod OutputLemmas
pub mod OneEvent
pub mod LinesCome
pub mod SourceLemmas
pub mod TopLemmas
pub mod BootTextLemmas
mod TrailEvents
mod LoadLemmas
mod CutLemmas
