pub mod Stages
pub mod Events
pub mod Asked
pub mod Lines
pub mod Scripts
pub mod TextRun
