pub mod Named
pub mod Connections
