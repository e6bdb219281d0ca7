pub mod LeafLemmas
pub mod TreeLemmas
pub mod PieceLemmas
pub mod VerdictLaws
