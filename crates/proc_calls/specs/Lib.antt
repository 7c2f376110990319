pub mod Halting
pub mod Joining
pub mod CloseNumbers
pub mod Ends
pub mod PsTexts
pub mod Programs
