pub mod Faults
pub mod Whole
