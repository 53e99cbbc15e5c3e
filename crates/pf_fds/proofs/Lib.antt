mod MarksLaws
pub mod Slots
mod Takes
