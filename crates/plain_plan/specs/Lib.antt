pub mod PlainTours
pub mod Openings
pub mod PlainPlans
