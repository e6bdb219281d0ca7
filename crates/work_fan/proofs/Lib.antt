pub mod DoneLists
pub mod Places
pub mod Shares
pub mod Steps
