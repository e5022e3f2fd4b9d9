pub mod Timing
pub mod HttpClients
pub mod Periods
pub mod FileMarks
