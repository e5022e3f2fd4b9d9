pub mod Maps
pub mod Areas
pub mod Device
pub mod Tricks
pub mod Server
pub mod Exchanges
pub mod StandIn
