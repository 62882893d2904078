pub mod Full
pub mod ApplyPlaces
pub mod CellLetters
pub mod Begun
pub mod Made
