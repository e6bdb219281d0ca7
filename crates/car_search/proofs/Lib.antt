pub mod NumberLemmas
pub mod CountLemmas
pub mod ChoosingLemmas
mod CoverLemmas
pub mod SortLemmas
