pub mod EnoughRows
pub mod KeptRows
pub mod DayOutcomes
pub mod BankTextLemmas
pub mod StoppedLemmas
pub mod AuditLemmas
pub mod OneText
