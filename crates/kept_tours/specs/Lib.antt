pub mod Kept
pub mod Walking
pub mod Leaves
pub mod Visiting
pub mod Scanning
pub mod Counting
