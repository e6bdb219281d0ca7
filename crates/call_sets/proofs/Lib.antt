pub mod Bits
pub mod Members
pub mod BelowTests
pub mod ListTests
pub mod Sums
pub mod Counts
pub mod Listed
pub mod Halves
