pub mod Keeping
pub mod Moments
