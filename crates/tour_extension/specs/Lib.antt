pub mod Points
pub mod Demands
pub mod Leaves
