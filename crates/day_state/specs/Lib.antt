pub mod Riding
pub mod Reaching
pub mod Openings
pub mod Passing
