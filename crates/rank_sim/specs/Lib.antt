pub mod Faults
pub mod Runs
pub mod Writable
pub mod Laws
pub mod Ranks
pub mod Stated
pub mod LetterLines
