pub mod Laws
pub mod CheckTexts
pub mod VerdictTexts
pub mod Layers
pub mod Pairs
