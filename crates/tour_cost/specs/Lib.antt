pub mod ShortForm
pub mod Served
pub mod Unserved
pub mod Entries
pub mod Completing
