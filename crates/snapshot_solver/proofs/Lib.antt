pub mod LeastLemmas
pub mod SumLemmas
pub mod StartBound
pub mod StartSheet
pub mod SolveLaws
