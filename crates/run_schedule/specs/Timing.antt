pub mod Pauses
pub mod RunTimes
pub mod SteadyClocks
pub mod Timings
