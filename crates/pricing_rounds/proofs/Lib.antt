pub mod DrawingLemmas
pub mod RoundLemmas
pub mod Interruptions
