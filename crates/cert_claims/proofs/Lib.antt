mod LeafLemmas
mod TreeLemmas
mod CountLemmas
mod WorthLemmas
mod CarLemmas
mod StatingLemmas
pub mod LoweringLemmas
