pub mod Doubles
pub mod ListedTours
pub mod RootAnswers
pub mod Reasons
pub mod KeptTurns
