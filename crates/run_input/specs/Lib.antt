pub mod Orders
pub mod Walk
pub mod Sources
pub mod Answering
pub mod Reading
pub mod Texts
pub mod Faults
pub mod Names
