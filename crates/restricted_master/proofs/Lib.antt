mod ColumnLemmas
mod PoolLemmas
pub mod PlanLemmas
mod PriceLemmas
mod PricedLemmas
mod SortLemmas
