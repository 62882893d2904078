pub mod Kinds
pub mod Laws
pub mod Letters
pub mod Parts
pub mod RowWalk
pub mod Writing
