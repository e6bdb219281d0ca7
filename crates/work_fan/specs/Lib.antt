pub mod Line
pub mod Rule
pub mod Work
