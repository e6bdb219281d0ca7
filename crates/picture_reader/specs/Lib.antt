pub mod Tellings
pub mod LogLegs
pub mod LogDrafts
pub mod DayScenes
pub mod PlanLegs
pub mod PlanScenes
