pub mod Registry
pub mod Slots
pub mod Lends
pub mod Descriptions
pub mod LendsDescription
pub mod Marks
pub mod Taken
