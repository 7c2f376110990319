pub mod CompSet
pub mod Element
pub mod Subject
pub mod Text
pub mod Reading
pub mod Grammar
pub mod Faults
