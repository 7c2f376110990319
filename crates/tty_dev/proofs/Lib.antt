pub mod HistoryLemmas
pub mod TableLemmas
mod WorkedRows
