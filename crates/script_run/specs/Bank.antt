pub mod Running
pub mod Settings
pub mod Texts
