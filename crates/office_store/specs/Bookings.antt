pub mod Places
pub mod MeterState
pub mod Surroundings
pub mod Corrections
pub mod Voids
