pub mod CapacityLaws
pub mod StepLaws
mod WorkedCapacities
