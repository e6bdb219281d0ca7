pub mod DrawLemmas
pub mod CaseLemmas
pub mod RefusalLemmas
pub mod AcceptedCases
