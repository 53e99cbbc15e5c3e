pub mod MeaningLaws
pub mod OwnsLaws
pub mod Bounds
mod Buffers
pub mod Calls
mod Common
mod ProcessTableReady
mod DescriptorsLetGo
mod TransfersCross
mod DescriptorsDup
mod Ends
mod OpensOutcome
mod OpensDescribe
mod ProcessesDrop
mod Fifos
mod Files
mod OpensFind
mod OpensReopen
mod DescriptorsFlag
mod OpensPipe
mod ProcessesFork
mod ProcessesSpawn
mod DescriptorsDrop
mod TablesTied
mod DescriptorsNamed
mod PipesOpen
mod PipesRing
mod PipesSetSize
mod ProcessTable
pub mod Refusals
pub mod Sendable
pub mod TablesShown
mod TablesSettled
mod Transfers
mod ProcessTableEmpty
mod ProcessesAlive
mod Parked
mod TransfersWhole
mod Queries
mod FileTree
