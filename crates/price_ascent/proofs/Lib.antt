pub mod MoveLemmas
pub mod StepLemmas
