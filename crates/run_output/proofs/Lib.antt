pub mod Steps
pub mod Pieces
pub mod Leading
pub mod JobListing
mod Sums
