pub mod Asking
pub mod Given
pub mod Reasons
pub mod Entries
pub mod Rounds
pub mod Spots
pub mod Kept
pub mod Reporting
