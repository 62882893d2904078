pub mod Alone
pub mod Places
pub mod Lasts
pub mod Summed
pub mod WholeMaps
pub mod Unions
pub mod Counts
pub mod Sorts
