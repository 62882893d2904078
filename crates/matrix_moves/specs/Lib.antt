pub mod Sources
pub mod Arrivals
pub mod Laws
