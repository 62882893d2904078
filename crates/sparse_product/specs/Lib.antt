pub mod Rows
pub mod Dense
