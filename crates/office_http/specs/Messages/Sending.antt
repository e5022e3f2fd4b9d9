pub mod Giving
pub mod Sending
pub mod Holding
pub mod Replies
pub mod Bodies
