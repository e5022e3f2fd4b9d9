pub mod Counts
pub mod LackingText
pub mod StatusText
