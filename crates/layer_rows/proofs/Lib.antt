pub mod LineTableLemmas
