pub mod Forms
pub mod LineFaults
pub mod LineReader
pub mod Seen
pub mod LineWords
pub mod Bank
pub mod AnswerText
pub mod RowLines
