pub mod Bodies
pub mod Nothing
pub mod Outcomes
