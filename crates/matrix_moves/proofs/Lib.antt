pub mod Apart
pub mod Placed
pub mod Gathered
pub mod Given
pub mod Sent
pub mod Read
pub mod Came
pub mod Empty
