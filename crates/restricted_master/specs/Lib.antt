pub mod Columns
pub mod Pools
pub mod Choosing
pub mod Choices
pub mod Priced
