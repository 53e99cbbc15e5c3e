pub mod Gated
pub mod Workers
