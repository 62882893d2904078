pub mod SmallJob
pub mod Posts
pub mod LaidOut
pub mod Played
