mod Examples
pub mod Answering
pub mod Latest
pub mod Waiting
pub mod Adding
pub mod Reading
pub mod Booking
pub mod Beneath
