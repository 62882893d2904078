pub mod DenseRows
pub mod Links
pub mod Gathered
pub mod Added
pub mod Products
pub mod WholeProduct
pub mod RowSums
