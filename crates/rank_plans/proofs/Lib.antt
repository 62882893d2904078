mod Known
mod Found
mod Fresh
mod LookedUp
mod Targets
mod Wants
mod Imported
mod Exported
mod Changes
mod Made
mod Mapped
pub mod Joined
