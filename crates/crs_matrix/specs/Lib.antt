pub mod Rows
pub mod Stored
pub mod Matrices
pub mod RowFaults
pub mod Completed
pub mod ByRow
