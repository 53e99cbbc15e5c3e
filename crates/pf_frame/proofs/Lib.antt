pub mod LiveLaws
pub mod CountedLaws
