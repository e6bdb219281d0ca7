pub mod PlainLemmas
pub mod TakenLemmas
pub mod Worked
