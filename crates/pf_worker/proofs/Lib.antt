pub mod GateLaws
pub mod WorkerLaws
pub mod Sendable
