pub mod Sample
pub mod Walks
