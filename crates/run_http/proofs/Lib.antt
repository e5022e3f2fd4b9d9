pub mod Copies
pub mod Examples
pub mod ReplyLemmas
pub mod StatusLemmas
