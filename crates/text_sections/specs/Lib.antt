pub mod Judging
pub mod Sections
pub mod Words
pub mod Canonical
pub mod NumberLists
pub mod Between
pub mod Unfinished
