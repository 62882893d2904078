pub mod Clauses
pub mod Combined
pub mod Makers
pub mod Structures
pub mod MatrixMoves
pub mod OwnPieces
pub mod StepPieces
pub mod DealtLines
