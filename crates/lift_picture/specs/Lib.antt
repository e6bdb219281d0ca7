pub mod Frames
pub mod Segments
pub mod Layers
pub mod Labels
pub mod Svg
pub mod Laws
