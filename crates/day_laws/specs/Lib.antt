pub mod Standing
pub mod Once
pub mod Arrivals
pub mod Laws
pub mod RowLines
