pub mod RowLemmas
pub mod BankLemmas
pub mod Worked
