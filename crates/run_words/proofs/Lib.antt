pub mod Table
pub mod Turns
pub mod Whole
pub mod Ends
pub mod Seeds
pub mod Examples
