pub mod Blocks
pub mod Laws
pub mod Leases
pub mod Lending
