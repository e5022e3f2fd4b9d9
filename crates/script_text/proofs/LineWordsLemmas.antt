pub mod Breaks
pub mod HexWords
