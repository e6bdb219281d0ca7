pub mod PartLemmas
pub mod RateLemmas
pub mod Late
pub mod Sizes
pub mod WaitingLemmas
pub mod RunningLemmas
pub mod CarriedLemmas
pub mod SteadyLemmas
pub mod NearLemmas
mod FoundCosts
