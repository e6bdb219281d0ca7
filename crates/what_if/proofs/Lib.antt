pub mod VariantLaws
pub mod FirstLeast
pub mod NearestLaws
pub mod LeastCosts
pub mod ExtraLaws
pub mod RegretLaws
pub mod ExtraLists
