pub mod Bank
pub mod Replaying
pub mod Looping
