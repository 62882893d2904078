pub mod Sums
pub mod Indices
pub mod Tables
pub mod Laws
