pub mod Options
pub mod Repeats
pub mod Given
pub mod Faults
