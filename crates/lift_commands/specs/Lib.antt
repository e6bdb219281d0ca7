pub mod Runs
pub mod Unread
