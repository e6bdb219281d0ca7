pub mod Codes
pub mod Ends
pub mod InputFaults
pub mod WholeTexts
pub mod Runs
