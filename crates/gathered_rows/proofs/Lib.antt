pub mod Lists
pub mod Sorted
pub mod Adding
pub mod Blocks
pub mod Dealt
pub mod Gathered
pub mod Numbers
