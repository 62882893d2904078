pub mod FileLookups
pub mod LetterCounts
pub mod LetterLookups
pub mod Names
pub mod Taking
pub mod Sources
pub mod Twisting
mod TwistExamples
