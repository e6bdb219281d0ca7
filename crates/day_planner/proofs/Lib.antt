pub mod RowLemmas
pub mod StoppedLaws
