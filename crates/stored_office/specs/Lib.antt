pub mod Advice
pub mod OverBooks
pub mod Tasks
