pub mod Bodies
pub mod Wanting
