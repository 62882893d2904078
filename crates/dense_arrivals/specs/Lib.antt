pub mod DenseLetters
pub mod DenseBegun
pub mod Applies
