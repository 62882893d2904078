pub mod NumeralLemmas
pub mod EntryLemmas
pub mod TextLemmas
pub mod FaultLemmas
pub mod AnswerLemmas
pub mod EntrySoundLemmas
pub mod SoundLemmas
pub mod ReadAgainLemmas
pub mod LawLemmas
pub mod PieceLemmas
pub mod ReadingLemmas
pub mod SizeLemmas
mod Examples
pub mod WrittenLines
pub mod Orders
pub mod Decimals
pub mod Splitting
pub mod Rereading
pub mod RereadCells
pub mod RereadValues
mod WrittenExamples
