pub mod ChainText
pub mod ImageLines
pub mod Seen
