pub mod Sheets
pub mod Kept
pub mod Branches
pub mod Payloads
pub mod Lends
pub mod Parts
pub mod Standing
pub mod Answers
