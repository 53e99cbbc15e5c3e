pub mod UnfinishedWrite
pub mod Call
pub mod Parked
