pub mod Chosen
pub mod FormsRead
pub mod Made
pub mod Pieces
pub mod LineWordsLemmas
pub mod BankLemmas
pub mod Got
pub mod HexText
