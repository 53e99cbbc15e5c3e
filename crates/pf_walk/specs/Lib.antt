pub mod Told
pub mod Resolutions
pub mod Room
pub mod Walks
