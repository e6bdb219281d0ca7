pub mod TurnPrices
pub mod TurnLists
pub mod PoolLists
pub mod PlanPools
pub mod AnswerLaws
pub mod SeriesLaws
