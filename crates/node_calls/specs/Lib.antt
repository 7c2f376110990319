pub mod Relabels
pub mod Removals
