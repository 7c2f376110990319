mod LinesCome
mod OneGrammar
pub mod NoUsers
pub mod TooLong
