pub mod Idle
pub mod Keeping
pub mod Moments
pub mod Places
pub mod Ranges
