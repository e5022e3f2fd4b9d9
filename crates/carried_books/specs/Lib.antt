pub mod Carrying
pub mod Joining
