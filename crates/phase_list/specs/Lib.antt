pub mod ByShapes
pub mod Seen
pub mod Walks
