pub mod Values
pub mod Commands
pub mod Given
pub mod Seen
pub mod Few
pub mod Json
