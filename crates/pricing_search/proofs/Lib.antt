mod Vain
mod Visiting
mod Stops
mod StepLemmas
mod DiveLemmas
mod SearchLemmas
pub mod PricedLemmas
