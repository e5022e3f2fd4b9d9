pub mod Finds
pub mod Chains
pub mod OneChain
pub mod Readings
pub mod Rows
pub mod SomeChain
pub mod Splices
pub mod TableRules
mod Examples
pub mod ScanLemmas
