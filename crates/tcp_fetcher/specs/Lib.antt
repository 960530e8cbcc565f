pub mod Answering
pub mod PartsFetching
pub mod TcpFetching
