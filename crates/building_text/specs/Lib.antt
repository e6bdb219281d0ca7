pub mod Order
pub mod Said
pub mod Words
pub mod Drafts
pub mod BuildingText
pub mod Written
pub mod Worked
