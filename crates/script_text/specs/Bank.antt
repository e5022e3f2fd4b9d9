pub mod BankLine
pub mod Forms
pub mod Seen
