pub mod Owned
pub mod Pool
pub mod PoolSound
