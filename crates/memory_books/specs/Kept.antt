pub mod Answers
pub mod Changes
pub mod Polls
pub mod Known
pub mod Keeping
