pub mod Ascending
pub mod Fills
pub mod Faults
pub mod ColumnMaps
pub mod Packed
pub mod Graphs
pub mod Kept
pub mod Spans
