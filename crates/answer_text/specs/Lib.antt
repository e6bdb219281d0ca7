pub mod Plans
pub mod Texts
pub mod Words
pub mod Drafts
pub mod Answers
pub mod Written
pub mod Rows
