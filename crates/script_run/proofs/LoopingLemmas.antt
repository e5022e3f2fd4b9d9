pub mod Breaking
pub mod Feeding
pub mod Carrying
pub mod Loops
