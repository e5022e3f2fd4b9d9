pub mod Days
pub mod Meters
pub mod Files
pub mod Reports
pub mod Offices
pub mod Keeping
pub mod Earlier
pub mod Unrecorded
pub mod Recorded
pub mod Collected
pub mod KeptMeters
pub mod Statements
pub mod OneFile
pub mod Sites
pub mod BothFiles
mod Examples
