pub mod Replies
pub mod Drafts
pub mod Following
pub mod Settling
pub mod Events
