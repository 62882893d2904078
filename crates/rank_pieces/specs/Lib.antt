pub mod Inputs
pub mod Pieces
pub mod Steps
