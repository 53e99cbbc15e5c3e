pub mod KeptLaws
pub mod SumLaws
