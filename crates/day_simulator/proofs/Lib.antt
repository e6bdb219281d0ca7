pub mod LoggedLemmas
pub mod RowLemmas
pub mod RowRunLemmas
pub mod ReadLemmas
pub mod StepLemmas
pub mod ServedRows
pub mod DayRunLemmas
pub mod TextRunLemmas
