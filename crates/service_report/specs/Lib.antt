pub mod Spans
pub mod ReportTexts
pub mod Writers
pub mod WorkedTexts
