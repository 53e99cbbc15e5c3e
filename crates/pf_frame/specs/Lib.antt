pub mod Bytes
pub mod Counted
pub mod Faults
pub mod Live
pub mod Own
pub mod Pages
pub mod Sound
