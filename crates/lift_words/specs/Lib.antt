pub mod Table
pub mod Taken
