pub mod DayLemmas
pub mod WalkLemmas
