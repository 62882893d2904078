pub mod Wanting
pub mod Walking
pub mod Places
pub mod Sources
pub mod Answering
pub mod Walked
pub mod Holding
pub mod Expecting
