pub mod Few
pub mod Served
pub mod Written
pub mod Begun
