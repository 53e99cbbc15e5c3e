pub mod PipeCross
pub mod PipeReads
