pub mod LoadLemmas
mod WorkedLoad
