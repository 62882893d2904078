pub mod Ascending
pub mod CellLines
pub mod Shares
pub mod Conditions
pub mod Laws
