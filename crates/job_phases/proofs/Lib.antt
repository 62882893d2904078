pub mod JobNames
pub mod ByPhase
pub mod LocalJobs
