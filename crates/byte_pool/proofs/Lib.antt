pub mod FullBlocks
pub mod Pools
pub mod SamePools
pub mod Written
