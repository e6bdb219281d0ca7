pub mod WordLemmas
pub mod DrawLemmas
pub mod Worked
