pub mod Measure
pub mod Places
pub mod Leaving
pub mod Walking
