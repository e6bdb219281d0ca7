pub mod Followers
pub mod Below
pub mod ListLemmas
pub mod WalkingLemmas
pub mod EndLemmas
pub mod Found
pub mod KeptLaws
pub mod EntryLemmas
pub mod LeafLemmas
mod StepLemmas
mod VisitLemmas
mod ScanLemmas
mod CountLemmas
pub mod WorthLemmas
