pub mod Errors
pub mod Credentials
pub mod Permissions
pub mod Root
pub mod Limits
pub mod Capacities
pub mod Kept
pub mod Copies
