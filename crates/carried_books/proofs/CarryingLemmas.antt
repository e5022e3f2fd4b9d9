pub mod Lasts
pub mod Sorting
pub mod Fed
pub mod Carried
pub mod Recorded
mod Examples
