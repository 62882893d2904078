pub mod Numbers
pub mod Maps
pub mod Positions
pub mod Compared
pub mod Fitted
mod Examples
