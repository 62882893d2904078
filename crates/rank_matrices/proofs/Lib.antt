pub mod NamedRows
pub mod Listed
pub mod OverNumbers
pub mod Products
pub mod SumsOn
pub mod DealtRows
