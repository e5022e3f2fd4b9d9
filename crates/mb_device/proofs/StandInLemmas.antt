pub mod Exchanging
pub mod Examples
