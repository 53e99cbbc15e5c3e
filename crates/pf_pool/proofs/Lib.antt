pub mod OwnedLaws
pub mod PoolLaws
