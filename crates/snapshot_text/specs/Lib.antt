pub mod Words
pub mod Drafts
pub mod Snapshots
pub mod Texts
pub mod Rows
