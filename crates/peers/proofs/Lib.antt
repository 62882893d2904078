pub mod Members
mod FirstNames
