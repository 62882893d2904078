pub mod Gathers
pub mod Tellers
pub mod Plays
