pub mod Faults
pub mod Blank
