pub mod Pieces
pub mod Pages
pub mod Listings
pub mod Summaries
