pub mod Best
pub mod Roots
pub mod Searches
pub mod Found
pub mod Reasons
