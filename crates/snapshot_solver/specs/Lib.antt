pub mod Starts
pub mod Reasons
pub mod Roots
pub mod Crews
