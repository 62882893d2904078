pub mod Combining
pub mod Picks
pub mod Arrivals
pub mod Examples
