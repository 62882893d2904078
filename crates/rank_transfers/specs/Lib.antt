pub mod Arrivals
pub mod JobRows
pub mod JobLetters
pub mod JobMoves
pub mod JobLocals
