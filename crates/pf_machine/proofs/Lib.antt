pub mod QueueLaws
pub mod NumberedLaws
pub mod ChargeLaws
pub mod SweepLaws
pub mod ExitLaws
pub mod RunLaws
pub mod EventLaws
pub mod FileLaws
pub mod HoldsLaws
pub mod MapLaws
pub mod Natural
pub mod NaturalFiles
pub mod NaturalSizes
pub mod NaturalOpens
pub mod NaturalWaits
pub mod NaturalCalls
pub mod StepLaws
pub mod AttemptLaws
pub mod ReplyLaws
pub mod QueryLaws
pub mod HouseLaws
pub mod FileLimitLaws
mod WorkedQueues
mod WorkedPages
mod WorkedSizes
mod WorkedCrossings
mod WorkedFiles
mod WorkedPaths
mod WorkedSharing
mod WorkedWaiting
mod WorkedQueries
mod WorkedScript
mod WorkedHouses
