pub mod Due
pub mod Leaves
pub mod Lowered
pub mod Lowering
pub mod Stating
pub mod WorkedClaims
