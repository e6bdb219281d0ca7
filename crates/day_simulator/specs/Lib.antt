pub mod Planning
pub mod Logged
pub mod Rows
pub mod RowRuns
pub mod Served
pub mod DayRuns
pub mod TextRuns
