pub mod Steps
pub mod Walks
pub mod Dives
pub mod Searches
