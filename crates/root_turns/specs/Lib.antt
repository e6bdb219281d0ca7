pub mod Turns
pub mod Pools
pub mod Dues
pub mod Series
