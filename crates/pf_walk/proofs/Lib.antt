pub mod Cuts
pub mod WalkLaws
pub mod Steps
pub mod Splits
pub mod Reached
pub mod SlashLaws
mod Plain
mod LongNames
mod Targets
mod Places
