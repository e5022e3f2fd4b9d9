pub mod Answering
pub mod Serving
pub mod Exchange
pub mod Laws
pub mod Rows
pub mod Wants
pub mod Connections
pub mod Messages
