pub mod TellingLemmas
pub mod DayReadLemmas
pub mod WorkedLogs
pub mod PlanReadLemmas
pub mod PlanTourLemmas
pub mod WorkedPlans
