pub mod Sound
pub mod Looking
pub mod RegisterMeters
pub mod Meters
pub mod Entries
pub mod Around
