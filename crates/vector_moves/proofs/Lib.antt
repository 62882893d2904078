pub mod Positions
pub mod Came
pub mod Sent
pub mod Absorbing
pub mod Wanted
pub mod Reserved
