pub mod SolvedRows
pub mod StoppedRows
