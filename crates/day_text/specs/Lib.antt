pub mod Records
pub mod Headers
pub mod DayOpenings
pub mod LogTexts
