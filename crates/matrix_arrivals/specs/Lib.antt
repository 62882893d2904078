pub mod Bounds
pub mod RowPlans
pub mod RowLetters
pub mod RowsBegun
