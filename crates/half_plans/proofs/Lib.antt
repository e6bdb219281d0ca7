pub mod NumberLemmas
pub mod MixtureLemmas
pub mod PairLemmas
pub mod CandidateLemmas
pub mod PricedLemmas
pub mod PlanLemmas
