pub mod KnownTrees
pub mod Certified
pub mod Enough
