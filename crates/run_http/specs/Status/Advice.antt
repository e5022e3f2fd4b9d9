pub mod Reported
pub mod Lacks
pub mod Sentences
