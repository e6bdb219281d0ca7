pub mod RowLemmas
pub mod OneLog
