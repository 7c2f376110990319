pub mod SumLemmas
pub mod HistoryLemmas
pub mod StepLemmas
pub mod SeatLemmas
pub mod TurnLemmas
pub mod TableLemmas
pub mod PassLemmas
pub mod CountLemmas
