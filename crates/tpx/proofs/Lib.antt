pub mod Sources
pub mod Pieces
pub mod PrintedCells
pub mod Reading
pub mod Showing
pub mod Played
pub mod Outputs
pub mod RunCalls
pub mod GeneratedCalls
pub mod Ended
pub mod Examples
mod ModeExamples
