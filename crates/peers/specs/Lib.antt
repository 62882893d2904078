pub mod Protocols
pub mod Peers
pub mod Runs
