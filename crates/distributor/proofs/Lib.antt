pub mod Combined
pub mod Numbered
pub mod Reserved
pub mod Arrived
pub mod Absorbed
pub mod Written
pub mod Rounds
