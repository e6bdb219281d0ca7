pub mod PartialTour
pub mod Orders
pub mod Courses
pub mod Prefixes
pub mod Tallies
pub mod Listed
pub mod Followers
