pub mod Texts
pub mod Writes
pub mod Asks
pub mod ReadRows
pub mod Waiting
