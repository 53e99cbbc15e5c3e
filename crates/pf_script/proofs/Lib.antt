pub mod Lines
pub mod Readings
pub mod ScriptNames
pub mod Places
pub mod Soundness
pub mod Streams
pub mod PrinterPut
pub mod Texts
pub mod DigitLaws
pub mod Counting
pub mod ScriptLemmas
pub mod StepLineLaws
mod ScriptExamples
mod TextExamples
