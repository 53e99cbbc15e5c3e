mod Books
mod Closes
mod Common
mod ParkedResume
pub mod Sendable
mod Steps
mod ParkedTransfers
mod ParkedInto
mod Wants
