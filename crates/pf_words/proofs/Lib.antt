pub mod CutLaws
pub mod Digits
pub mod Numbers
pub mod Data
pub mod BlockLaws
pub mod MarkLaws
pub mod NumberWords
pub mod JoinLaws
pub mod DataWords
pub mod SpellingLaws
mod WordExamples
