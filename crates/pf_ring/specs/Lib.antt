pub mod Calls
pub mod Door
pub mod Laid
pub mod Receive
pub mod Ring
pub mod Steps
pub mod Table
pub mod Windows
