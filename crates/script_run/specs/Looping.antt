pub mod Answers
pub mod Standings
pub mod Lines
pub mod Loops
pub mod TextRun
