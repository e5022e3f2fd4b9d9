pub mod Texts
pub mod Kept
pub mod Upserts
pub mod Writes
pub mod Loops
pub mod Reading
pub mod Joins
