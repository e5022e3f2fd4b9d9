pub mod Written
pub mod Reported
pub mod Ranged
