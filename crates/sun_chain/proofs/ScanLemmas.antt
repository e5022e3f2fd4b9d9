pub mod Gives
pub mod Framing
pub mod Risen
pub mod Settles
pub mod Potentials
pub mod Talking
pub mod Showing
mod Examples
