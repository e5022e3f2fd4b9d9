pub mod Connections
pub mod Exchanges
