pub mod Entries
pub mod Transfers
pub mod Arrivals
pub mod Packed
pub mod Rounds
