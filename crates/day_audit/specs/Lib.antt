pub mod Words
pub mod Audits
pub mod Taking
pub mod Progress
pub mod ProvedDays
pub mod Inputs
pub mod OneAnswer
