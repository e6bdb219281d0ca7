pub mod BankRows
pub mod BankTexts
pub mod Banks
pub mod Heads
pub mod Taken
