pub mod CallRates
pub mod Gathering
pub mod Idle
pub mod Keeping
pub mod Origins
pub mod Rows
pub mod Stands
