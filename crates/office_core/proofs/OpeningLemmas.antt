pub mod Opened
pub mod Lost
