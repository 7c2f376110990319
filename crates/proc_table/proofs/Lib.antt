mod ListLemmas
mod EndingListLemmas
mod OrderLemmas
mod RisingLemmas
pub mod MapLemmas
pub mod CallMapLemmas
mod PidLemmas
mod PidOrderLemmas
mod ChildLemmas
pub mod ChangeLemmas
pub mod KeepLemmas
mod KillLemmas
mod Scenes
mod SignalRows
mod ForkRows
mod EndingRows
mod WaitRows
mod JobRows
pub mod SoundLemmas
pub mod PendingLemmas
pub mod RunningLemmas
