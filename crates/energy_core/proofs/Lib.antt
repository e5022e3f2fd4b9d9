pub mod Tables
pub mod Sums
pub mod Bookings
pub mod Turns
pub mod Acceptance
pub mod Soundness
pub mod Truth
pub mod Examples
