pub mod Lists
pub mod Comings
pub mod Beginnings
pub mod Copying
pub mod Completing
pub mod Laws
pub mod Applying
pub mod Gathering
