pub mod Stages
pub mod Answers
pub mod Lines
pub mod Scans
pub mod Counters
