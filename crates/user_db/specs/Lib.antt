pub mod Name
pub mod Lines
pub mod Grammar
pub mod Boot
pub mod Texts
