pub mod Replies
pub mod Reported
pub mod Written
pub mod Scripts
pub mod Held
