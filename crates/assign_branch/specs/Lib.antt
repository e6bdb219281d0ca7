pub mod Demands
pub mod Splits
pub mod Pricings
