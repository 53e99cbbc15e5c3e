pub mod UserPages
pub mod Sums
