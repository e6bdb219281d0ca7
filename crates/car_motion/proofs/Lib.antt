pub mod Covers
pub mod Least
pub mod Squares
