pub mod CarLemmas
pub mod NewIds
pub mod Steps
pub mod Lists
pub mod Whole
pub mod Again
pub mod Texts
pub mod Written
