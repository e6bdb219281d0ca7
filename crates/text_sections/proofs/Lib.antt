pub mod SectionLemmas
pub mod NumberLemmas
pub mod CanonicalLemmas
pub mod NumberListLemmas
pub mod BetweenLemmas
pub mod StepLemmas
pub mod EachLemmas
pub mod UnfinishedLemmas
