pub mod SeenRuns
pub mod TrailLemmas
mod Computing
mod WorkedAnswers
mod WorkedLabels
mod WorkedLines
mod WorkedLists
mod WorkedPrints
mod WorkedRows
