pub mod Wanted
pub mod Walk
pub mod Held
pub mod Places
pub mod Steps
pub mod Laws
