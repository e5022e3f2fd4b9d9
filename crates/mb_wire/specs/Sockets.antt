pub mod Beginnings
pub mod Clocks
