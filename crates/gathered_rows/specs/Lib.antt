pub mod Sorting
pub mod Blocks
pub mod Conditions
