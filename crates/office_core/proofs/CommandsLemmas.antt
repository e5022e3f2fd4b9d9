pub mod Trying
pub mod Carried
pub mod Begun
