pub mod Results
pub mod Counts
pub mod Pieces
pub mod Makings
pub mod Leaving
pub mod Workers
pub mod Ranks
