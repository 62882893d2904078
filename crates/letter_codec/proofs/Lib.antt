pub mod AlikeLetters
pub mod EqualRows
pub mod ReadLetters
pub mod ReadWords
pub mod RowWalks
pub mod SameRows
pub mod WrittenBytes
pub mod WrittenNumbers
