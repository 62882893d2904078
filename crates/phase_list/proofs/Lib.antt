pub mod Shaped
pub mod Walking
pub mod Placed
pub mod Bounded
