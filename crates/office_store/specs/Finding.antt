pub mod Each
pub mod Finding
pub mod Latest
pub mod Points
pub mod Reading
pub mod Showing
pub mod Sound
