pub mod Histories
pub mod Passes
pub mod Answers
pub mod Rule
pub mod Steps
pub mod Seats
