pub mod Advice
pub mod Status
pub mod Monitor
