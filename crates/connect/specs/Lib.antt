pub mod Connects
