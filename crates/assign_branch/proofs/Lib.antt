pub mod DemandLemmas
mod SetNumbers
mod SplitLaws
mod RootLemmas
