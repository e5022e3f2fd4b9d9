pub mod Scanning
pub mod Counting
pub mod Naming
