pub mod Mixtures
pub mod PairPlans
pub mod Choosing
pub mod Priced
pub mod Choices
pub mod WorkedHalves
