pub mod Directories
pub mod Faults
pub mod Registrations
