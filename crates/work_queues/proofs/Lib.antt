mod QueueLaws
mod Resizes
mod Exchanges
mod Additions
mod PoolLaws
mod ListLaws
mod SetLaws
