pub mod StopClear
pub mod Serving
pub mod Floors
pub mod Orders
pub mod PlainPlan
pub mod Found
pub mod FloorSteps
