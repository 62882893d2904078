pub mod RowPlaces
pub mod Numbers
pub mod Kept
pub mod Clauses
pub mod NumberRows
pub mod CrsTables
pub mod CompletedRows
pub mod CrsCells
