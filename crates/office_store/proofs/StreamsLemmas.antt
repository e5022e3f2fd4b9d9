pub mod Compared
pub mod Handed
pub mod Shared
