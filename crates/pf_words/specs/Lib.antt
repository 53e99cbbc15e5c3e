pub mod Words
pub mod Arguments
pub mod Verbs
pub mod Spelling
pub mod Causes
pub mod Faults
pub mod Blocks
pub mod Marks
