pub mod Examples
pub mod Loops
