pub mod Fitting
pub mod Lists
pub mod Maps
pub mod Validity
