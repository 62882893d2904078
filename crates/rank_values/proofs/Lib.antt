pub mod Globals
pub mod LineTables
pub mod CellLists
pub mod Blocks
pub mod InOrder
pub mod Overs
