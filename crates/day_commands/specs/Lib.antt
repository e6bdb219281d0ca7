pub mod DayRows
pub mod DayOutcome
pub mod BanksOutcome
pub mod WorkedBanks
pub mod AuditTexts
pub mod AuditOutcome
pub mod WorkedAudits
pub mod OneText
