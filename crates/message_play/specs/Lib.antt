pub mod Faults
pub mod MadeRuns
pub mod Posts
pub mod Plays
pub mod Stages
