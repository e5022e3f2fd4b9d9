pub mod Turns
pub mod Going
