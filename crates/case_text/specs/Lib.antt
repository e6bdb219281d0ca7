pub mod CaseTexts
pub mod TableOrder
pub mod TableDrafts
pub mod TableTexts
pub mod WorkedTables
pub mod AskedCases
